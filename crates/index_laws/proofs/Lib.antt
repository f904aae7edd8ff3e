mod OpenedEnds
mod Solutions
mod Compatible
mod Found
