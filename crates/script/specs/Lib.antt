pub mod Actions
pub mod Commands
pub mod Items
pub mod Rooms
pub mod Said
