mod Clipped
mod Joined
mod Picked
mod Listed
mod RunsLemmas
mod Determined
mod Agreement
