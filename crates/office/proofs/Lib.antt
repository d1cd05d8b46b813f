mod Stands
mod Room
mod Printing
mod Running
mod Slips
mod Offices
mod Exact
mod Boards
