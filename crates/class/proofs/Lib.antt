pub mod Class
pub mod Agreement
