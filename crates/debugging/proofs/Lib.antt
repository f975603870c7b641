mod BytesLeft
mod LastStops
mod Timelines
