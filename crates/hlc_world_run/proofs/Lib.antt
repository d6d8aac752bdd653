mod Mirrors
mod Orders
