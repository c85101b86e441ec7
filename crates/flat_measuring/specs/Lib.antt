pub mod FlatMeasuring
