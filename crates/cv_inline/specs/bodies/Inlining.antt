-- Where a call is inlined, and the names that are drawn there. This profile's own.
use Rattle.std.specs.Prelude.{◌≡◌, ℕ, ◌<◌, Bool, true, false, None}
use Rattle.cv_meaning.specs.Interpretation.{Setting}
use Rattle.cv_meaning.specs.Memory.{Store, Indices, tuple}
use Rattle.cv_meaning.specs.Terms.{found_in, values}
use Rattle.cv_meaning.specs.contexts.Inlined.{Drawn, Caller, index_terms, is_index_of, is_own}
use Rattle.cv_meaning.specs.contexts.Roles.{Role, TheKeyName, Replication, Variable, Index, is_plain, is_elsewhere, is_seen, is_kept}

-- a caller at values of its indices, with the drawn names
pub record Inlining : Type 0 where
  pub g : Setting
  pub d : Drawn
  pub c : Caller
  pub at : Indices
  pub drawn : ℕ → Bool
  pub has : ℕ → ℕ → Bool  -- a name is drawn at a site
  pub constant : ℕ → Bool
  pub arity : ℕ → ℕ  -- the number of indices of a site
  pub finds : ℕ → Bool  -- the places of the finds of the caller's body
  pub opens : ℕ → ℕ → ℕ → Bool  -- the find at a place has a branch for a site and a branch of the text
  pub free : (y : ℕ) → drawn y ≡ true → (found_in at y ≡ None) × (g.is_constant y ≡ false)
  pub drawn_at : (s v : ℕ) → has s v ≡ true → drawn (d.variable s v) ≡ true
  pub drawn_key : drawn d.key ≡ true
  pub here : (n : Store) → values g at n (index_terms c.replications) ≡ tuple at
  pub constants : (x : ℕ) → constant x ≡ true → (g.is_constant x ≡ true) × (found_in at x ≡ None) × (is_own c x ≡ false)

-- each drawn name has the role for which it is drawn
pub record Naming (p : Inlining) : Type 0 where
  pub role : ℕ → Role
  pub key : role p.d.key ≡ TheKeyName
  pub variables : (s v : ℕ) → p.has s v ≡ true → role (p.d.variable s v) ≡ Variable s v
  pub indices : (q o b k : ℕ) → p.opens q o b ≡ true → k < p.arity o → role (p.d.index p.c.number q o b k) ≡ Index p.c.number q o b k
  pub index_drawn : (q o b k : ℕ) → p.opens q o b ≡ true → k < p.arity o → p.drawn (p.d.index p.c.number q o b k) ≡ true
  pub replications : (x : ℕ) → is_index_of p.c.replications x ≡ true → role x ≡ Replication

abbrev pub plain : (p : Inlining) → Naming p → ℕ → Bool
plain p nm y = is_plain (nm.role y)

abbrev pub elsewhere : (p : Inlining) → Naming p → ℕ → Bool
elsewhere p nm y = is_elsewhere p.c.number (nm.role y)

abbrev pub seen : (p : Inlining) → Naming p → ℕ → ℕ → Bool
seen p nm q y = is_seen p.c.number q (nm.role y)

abbrev pub kept : (p : Inlining) → Naming p → ℕ → Bool
kept p nm y = is_kept p.c.number (nm.role y)
