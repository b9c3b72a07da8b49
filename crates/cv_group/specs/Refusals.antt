-- What a refusal says.
use Rattle.std.specs.Prelude.{◌≡◌, ℕ, Option, Some}
use Rattle.cv_group.specs.declared.fault.GroupFault.{GroupFault}
use Rattle.cv_group.specs.declared.fault.GroupFault.TheVariants.{LeftNotTerm, TwoIndices, ShapeDiffers, FreeName, Unread, OutOfMemory}
use Rattle.cv_group_rules.specs.Faults.{GroupRule, LeftIsTerm, OneIndex, SameShape, BoundNames, ReadNames}

-- how a broken rule is answered
abbrev pub refused_by : GroupRule → GroupFault
refused_by LeftIsTerm = LeftNotTerm
refused_by OneIndex = TwoIndices
refused_by SameShape = ShapeDiffers
refused_by BoundNames = FreeName
refused_by ReadNames = Unread

-- The refusal names the rule that was found. Want of memory says nothing.
abbrev pub IsRefusalOf : Option GroupRule → GroupFault → Type 0
IsRefusalOf found LeftNotTerm = found ≡ Some LeftIsTerm
IsRefusalOf found TwoIndices = found ≡ Some OneIndex
IsRefusalOf found ShapeDiffers = found ≡ Some SameShape
IsRefusalOf found FreeName = found ≡ Some BoundNames
IsRefusalOf found Unread = found ≡ Some ReadNames
IsRefusalOf found OutOfMemory = Unit {0}

-- The same, with the number of the equivalence.
abbrev pub IsRefusalAt : Option (ℕ × GroupRule) → ℕ → GroupFault → Type 0
IsRefusalAt found k LeftNotTerm = found ≡ Some (k, LeftIsTerm)
IsRefusalAt found k TwoIndices = found ≡ Some (k, OneIndex)
IsRefusalAt found k ShapeDiffers = found ≡ Some (k, SameShape)
IsRefusalAt found k FreeName = found ≡ Some (k, BoundNames)
IsRefusalAt found k Unread = found ≡ Some (k, ReadNames)
IsRefusalAt found k OutOfMemory = Unit {0}
