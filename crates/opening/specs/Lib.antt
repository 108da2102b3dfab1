-- The steps of Open(L, K), Reserve(s, P) and Withdraw(s): document 01, "Steps", and document 02, CR 1.
pub mod Opening
pub mod Withdrawing
