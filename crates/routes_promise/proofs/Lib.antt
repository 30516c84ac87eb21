pub mod ReadBack
pub mod Promise
pub mod ThreeCalls
