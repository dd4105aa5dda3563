mod Played
mod Turns
