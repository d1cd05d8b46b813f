mod FieldPositions
mod KnownNumbers
mod Membership
mod SameSets
mod SetNumbers
