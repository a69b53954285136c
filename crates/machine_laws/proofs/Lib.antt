mod Seats
mod First
mod Machines
