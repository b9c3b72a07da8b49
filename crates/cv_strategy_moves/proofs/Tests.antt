-- Tests of one of two parts, and of a node with its children.
use Rattle.std.proofs.Common.{◌≡◌, Bool, true, false, ◌||◌, refl}
use Rattle.std.proofs.lemmas.Bool.{or_left, or_right}

pub either : {A : Type 0} (b c : Bool) → (b || c) ≡ true → (b ≡ true → A) → (c ≡ true → A) → A
either true c e f g = f refl
either false c e f g = g e

pub in_first : (b c d : Bool) → c ≡ true → (b || (c || d)) ≡ true
in_first b c d e = or_right b (c || d) (or_left c d e)

pub in_second : (b c d : Bool) → d ≡ true → (b || (c || d)) ≡ true
in_second b c d e = or_right b (c || d) (or_right c d e)
