mod Lapped
