-- Tokens that are written one behind another, and those that are left to be written.
use Rattle.std.proofs.Common.{◌≡◌, ℕ, suc, ◌+◌, ◌-◌, ◌<◌, ◌≤◌, if◌then◌else◌, List, [], ◌∷◌, ◌++◌, length, drop, map, get_or, refl, ap, sym, ◌∙◌, subst, arith}
use Rattle.std.proofs.lemmas.List.{append_assoc, append-nil, drop_all, drop_more}
use Rattle.cv_lex.specs.Lexis.{Token}
use Rattle.cv_lex.specs.View.{token_at}
use Rattle.cv_library.specs.Written.{Adds}
use Rattle.cv_library.proofs.Adding.{adds_both, adds_none}
use Rattle.cv_oracles.specs.declared.reading.Reading.{Reading}
use Rattle.cv_oracles.specs.declared.region.Region.{Region}
use Rattle.cv_oracles.specs.declared.words.Word.{Word}
use Rattle.cv_oracles.specs.declared.words.Word.TheVariants.{Comma, Dot}
use Rattle.cv_oracles.specs.Pieces.{copy_for, word_for}
use Rattle.cv_oracles.specs.Translations.{behind_at, channels, kept_at, kept_from, written_at, written_from}

-- some of these were written, and the rest is left
pub record IsPut (old out rest whole : List Token) : Type 0 where
  pub more : List Token
  pub adds : Adds old more out
  pub all : more ++ rest ≡ whole

pub put_none : (old whole : List Token) → IsPut old old whole whole
put_none old whole = record { more = []; adds = adds_none old; all = refl }

pub put_more : (old out next rest left whole xs : List Token) → IsPut old out rest whole → rest ≡ xs ++ left → Adds out xs next → IsPut old next left whole
put_more old out next rest left whole xs p e a = record {
  more = p.more ++ xs;
  adds = adds_both old out next p.more xs p.adds a;
  all = append_assoc p.more xs left ∙ ap (λ l. p.more ++ l) (sym e) ∙ p.all;
}

pub put_all : (old out next rest whole : List Token) → IsPut old out rest whole → Adds out rest next → Adds old whole next
put_all old out next rest whole p a = subst (λ l. Adds old l next) p.all (adds_both old out next p.more rest p.adds a)

pub put_over : (old out rest whole : List Token) → IsPut old out rest whole → rest ≡ [] → Adds old whole out
put_over old out rest whole p e = subst (λ l. Adds old l out) (sym (append-nil p.more) ∙ ap (λ l. p.more ++ l) (sym e) ∙ p.all) p.adds

-- the next one of a list

pub mapped_more : {X : Type 0} (f : X → Token) (xs : List X) (i : ℕ) (d : X) → i < length xs → map f (drop i xs) ≡ (f (get_or xs i d) ∷ []) ++ map f (drop (i + 1) xs)
mapped_more f xs i d h = ap (map f) (drop_more xs i d h)

pub mapped_none : {X : Type 0} (f : X → Token) (xs : List X) (i : ℕ) → length xs ≤ i → map f (drop i xs) ≡ []
mapped_none f xs i h = ap (map f) (drop_all i xs h)

pub kept_more : (r : Region) (ts : List Token) (k to : ℕ) → k < to → kept_from r ts k (to - k) ≡ (kept_at r ts k ∷ []) ++ kept_from r ts (k + 1) (to - (k + 1))
unfolding kept_from
kept_more r ts k to h = let far : to - k ≡ suc (to - (k + 1)) = omega arith in ap (kept_from r ts k) far

pub kept_none : (r : Region) (ts : List Token) (k to : ℕ) → to ≤ k → kept_from r ts k (to - k) ≡ []
unfolding kept_from
kept_none r ts k to h = let none : to - k ≡ 0 = omega arith in ap (kept_from r ts k) none

pub written_more : (ts : List Token) (r : Reading) (k to : ℕ) → k < to → written_from ts r k (to - k) ≡ written_at ts r k ++ written_from ts (behind_at ts r k) (k + 1) (to - (k + 1))
unfolding written_from
written_more ts r k to h = let far : to - k ≡ suc (to - (k + 1)) = omega arith in ap (written_from ts r k) far

pub written_none : (ts : List Token) (r : Reading) (k to : ℕ) → to ≤ k → written_from ts r k (to - k) ≡ []
unfolding written_from
written_none ts r k to h = let none : to - k ≡ 0 = omega arith in ap (written_from ts r k) none

pub channels_more : (ts : List Token) (before : ℕ) (w : Word) (ks : List ℕ) (i : ℕ) → i < length ks → channels ts before w (drop i ks) ≡ (word_for w before ∷ copy_for ts (get_or ks i 0) (get_or ks i 0) ∷ []) ++ channels ts before Comma (drop (i + 1) ks)
channels_more ts before w ks i h = ap (channels ts before w) (drop_more ks i 0 h)

pub channels_none : (ts : List Token) (before : ℕ) (w : Word) (ks : List ℕ) (i : ℕ) → length ks ≤ i → channels ts before w (drop i ks) ≡ word_for Dot before ∷ []
channels_none ts before w ks i h = ap (channels ts before w) (drop_all i ks h)
