mod Sentences
mod LinePlaces
