-- Lists with register accesses, and what demand 3 and the theorems of the registers say of them.
pub mod Controlled
pub mod Crowded
