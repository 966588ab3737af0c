mod Casts
mod DueLists
mod Joining
