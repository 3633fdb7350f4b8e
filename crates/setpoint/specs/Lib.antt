pub mod Codec
pub mod Float32
pub mod Cases
pub mod RoundTrip
