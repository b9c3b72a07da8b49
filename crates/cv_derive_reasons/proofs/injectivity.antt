mod Injective
