mod Stacking
