mod Ready
mod After
mod Whole
mod Waited
mod Exactly
mod Betweens
mod Counted
mod Contended
