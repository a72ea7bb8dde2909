mod Steps
mod Parts
