mod Pairs
mod Parts
mod Told
