pub mod Steps
mod Items
