-- How the search for a name among the entries goes on by one entry.
use Rattle.std.proofs.Common.{◌≡◌, ℕ, ◌+◌, ◌<◌, List, ◌∷◌, length, drop, get_or, refl, ap, sym, ◌∙◌, Some, true, false}
use Rattle.std.specs.Prelude.{string_bytes}
use Rattle.std.specs.Str.{bytes_eq}
use Rattle.std.specs.declared.string.String.{String}
use Rattle.std.specs.declared.vec.Vec.{Vec}
use Rattle.std.specs.declared.alloc.Global.{Global}
use Rattle.std.proofs.lemmas.List.{at_drop_more}
use Rattle.cv_outside.specs.Told.{entry_of}

-- a name with its bytes
abbrev pub Entry : Type 0
Entry = String Global × Vec ℕ Global

-- the next entry has the name, so it is the one that is sought
pub entry_here : (es : List Entry) (name : List ℕ) (i : ℕ) (e : Entry) → i < length es → e ≡ get_or es i e
    → bytes_eq (string_bytes e.0) name ≡ true → entry_of (drop i es) name ≡ Some e.1.items
entry_here es name i e l r t =
    let step = at_drop_more (λ xs. entry_of xs name) es i e l in
    let here : entry_of (e ∷ drop (i + 1) es) name ≡ Some e.1.items = rw t refl in
    step ∙ (ap (λ x. entry_of (x ∷ drop (i + 1) es) name) (sym r) ∙ here)

-- the next entry has another name, so it is passed
pub entry_passed : (es : List Entry) (name : List ℕ) (i : ℕ) (e : Entry) → i < length es → e ≡ get_or es i e
    → bytes_eq (string_bytes e.0) name ≡ false → entry_of (drop i es) name ≡ entry_of (drop (i + 1) es) name
entry_passed es name i e l r t =
    let step = at_drop_more (λ xs. entry_of xs name) es i e l in
    let here : entry_of (e ∷ drop (i + 1) es) name ≡ entry_of (drop (i + 1) es) name = rw t refl in
    step ∙ (ap (λ x. entry_of (x ∷ drop (i + 1) es) name) (sym r) ∙ here)

pub ruleset entries = (entry_here, entry_passed)
