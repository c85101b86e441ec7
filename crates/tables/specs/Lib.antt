pub mod Numbers
pub mod Place
