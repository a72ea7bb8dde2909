mod Changes
mod Asked
