mod Rising
mod Placing
