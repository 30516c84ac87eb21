pub mod Promise
pub mod ThreeCalls
