mod Drawing
mod Few
