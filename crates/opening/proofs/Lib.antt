-- Open, Reserve and Withdraw by cases.
pub mod DrainCases
