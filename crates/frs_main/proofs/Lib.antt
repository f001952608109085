-- Lemmas on what the real forms answer, and on what a command line asks for.
mod Rising
mod Words
