pub mod Raw
mod Examples
