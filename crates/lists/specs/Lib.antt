-- Definitions on lists that the crates above share. No word of ports, queues or streams.
pub mod Window
pub mod Turns
pub mod Equal
pub mod Each
