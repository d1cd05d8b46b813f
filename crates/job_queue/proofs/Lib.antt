mod Lists
mod Keeps
mod Taken
