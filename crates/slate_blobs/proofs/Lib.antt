mod Greatest
mod Each
mod Folders
mod Calls
mod Found
mod Kept
mod Stored
