pub mod AnyLemmas
pub mod HdlcLemmas
pub mod RunLemmas
pub mod TcpLemmas
