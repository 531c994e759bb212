mod Lending
mod Steps
