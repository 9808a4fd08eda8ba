mod Runs
mod Sorted
mod Words
mod Views
mod Renaming
