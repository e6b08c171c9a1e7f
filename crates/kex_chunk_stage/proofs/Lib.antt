pub mod WrappedDesks
