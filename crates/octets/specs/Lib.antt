-- Numbers in octets.
pub mod Numbers
