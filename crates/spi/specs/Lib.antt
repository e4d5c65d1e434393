pub mod Spi
