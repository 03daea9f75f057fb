pub mod Golden
