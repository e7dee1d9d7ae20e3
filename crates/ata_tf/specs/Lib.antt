pub mod Bytes
pub mod HostToDevice
pub mod DeviceToHost
pub mod SetDeviceBits
pub mod CommandCodes
