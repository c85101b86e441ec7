pub mod ToText
