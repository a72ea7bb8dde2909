pub mod Lists
pub mod Laws
pub mod View
pub mod Reader
