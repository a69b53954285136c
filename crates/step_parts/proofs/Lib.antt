mod Following
mod Entries
mod Quiet
