pub mod ConfigFaults
pub mod Address
pub mod Proxy
pub mod Populate
pub mod LentProxy
pub mod Remarks
