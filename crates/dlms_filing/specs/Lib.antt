pub mod Printing
pub mod Filing
pub mod Disk
pub mod System
pub mod HostDisk
