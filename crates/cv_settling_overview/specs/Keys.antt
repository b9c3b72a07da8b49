-- Conjuncts in order, with a table of their places by keys. This profile's own.
use Rattle.std.specs.Prelude.{◌≡◌, ◌≤◌, ℕ, List, slice_get, Some}
use Rattle.std.specs.declared.hash.FoldHasher.{FoldHasher}
use Rattle.std.specs.declared.hash.BuildHasherDefault.{BuildHasherDefault}
use Rattle.std.specs.HashMap.{get, HashMap}
use Rattle.cv_settling_overview.specs.contracts.keys.KeyPartialEq.TheImpl.{ghosts}
use Rattle.cv_settling_overview.specs.declared.keys.Conjunct.{Conjunct}
use Rattle.cv_settling_overview.specs.declared.keys.Key.{Key}

abbrev pub Places : Type 0
Places = HashMap Key ℕ (BuildHasherDefault FoldHasher)

-- the conjunct at a place has this key
pub record IsAt (cs : List Conjunct) (k : ℕ) (key : Key) : Type 0 where
  pub conjunct : Conjunct
  pub there : slice_get cs k ≡ Some conjunct
  pub same : conjunct.key ≡ key

-- up to a place a conjunct has this key, and the table has its place
pub record IsPlaced (cs : List Conjunct) (places : Places) (k : ℕ) (key : Key) : Type 0 where
  pub place : ℕ
  pub known : get ghosts.eq places key ≡ Some place
  pub before : place ≤ k
  pub there : IsAt cs place key

-- the key of each conjunct has a place in the table; a key that no conjunct has may have one too
abbrev pub AreKeysPlaced : List Conjunct → Places → Type 0
AreKeysPlaced cs places = (k : ℕ) (c : Conjunct) → slice_get cs k ≡ Some c → IsPlaced cs places k c.key
