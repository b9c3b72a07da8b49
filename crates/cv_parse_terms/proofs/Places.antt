-- Places in the list of tokens, and readers one after another.
use Rattle.std.proofs.Common.{◌≡◌, ℕ, zero, suc, ◌+◌, ◌-◌, ◌<◌, ◌≤◌, Bool, true, false, List, [], ◌∷◌, ◌++◌, length, drop, refl, ap, sym, ◌∙◌, arith, subst, get_or, length-drop, append-nil, Err, Option, Some, None, is_some}
use Rattle.std.proofs.lemmas.List.{map-append}
use Rattle.cv_parse_notation.specs.declared.script.ScriptWord.{ScriptWord}
use Rattle.cv_parse_notation.specs.declared.sign.Sign.{Sign}
use Rattle.cv_parse_notation.specs.declared.sign.Sign.TheVariants as token
use Rattle.cv_parse_notation.specs.declared.sign.Mark.{Mark}
use Rattle.cv_parse_notation.specs.Spells.{Kind, kind_of, next_is, is_mark, is_script_word, is_word, is_zero, is_find, is_unnamed, used}
use Rattle.cv_parse_notation.specs.Reads.{Read, Found, Syntax, ◌>>=◌, found, pick, no_syntax, read_sign, read_script_word, read_word, read_number, read_nought, read_find, read_unnamed}
use Rattle.cv_parse_terms.specs.declared.lookahead.ReadError.{ReadError}
use Rattle.cv_parse_terms.specs.declared.lookahead.ReadError.TheVariants as error
use Rattle.cv_parse_grammar.specs.declared.role.Role.{Role}
use Rattle.cv_parse_terms.specs.declared.trail.NameUse.{NameUse}
use Rattle.cv_parse_terms.specs.Gives.{Fails, IsRead, IsPlain, IsSign, use_of, uses_of, word_in, number_in, find_in, unnamed_in, next_value, read_note}

pub past_end : (p : Kind → Bool) (at : ℕ) (all : List Sign) → length all ≤ at → next_is p (drop at all) ≡ false
past_end p zero [] h = refl
past_end p (suc n) [] h = refl
past_end p zero (t ∷ ts) h = absurd (omega arith)
past_end p (suc n) (t ∷ ts) h = past_end p n ts (omega arith)

pub next_at : (p : Kind → Bool) (at : ℕ) (all : List Sign) (d : Sign) → at < length all → next_is p (drop at all) ≡ p (kind_of (get_or all at d))
next_at p at [] d h = absurd (omega arith)
next_at p zero (t ∷ ts) d h = refl
next_at p (suc n) (t ∷ ts) d h = next_at p n ts d (omega arith)

pub in_range : (p : Kind → Bool) (at : ℕ) (all : List Sign) → next_is p (drop at all) ≡ true → at < length all
in_range p zero [] h = absurd (cc)
in_range p (suc n) [] h = absurd (cc)
in_range p zero (t ∷ ts) h = omega arith
in_range p (suc n) (t ∷ ts) h = let i = in_range p n ts h in omega arith

sign_read : (m : Mark) (ts : List Sign) → next_is (is_mark m) ts ≡ true → read_sign {R = Role} m ts ≡ found tt [] (drop 1 ts)
sign_read m [] h = absurd (cc)
sign_read m (t ∷ ts) h = ap (λ b. pick b (λ us. found tt [] ts) no_syntax (t ∷ ts)) h

sign_fails : (m : Mark) (ts : List Sign) → next_is (is_mark m) ts ≡ false → read_sign {R = Role} m ts ≡ Err (Syntax (length ts))
sign_fails m [] h = refl
sign_fails m (t ∷ ts) h = ap (λ b. pick b (λ us. found tt [] ts) no_syntax (t ∷ ts)) h

pub drop_one : (at : ℕ) (all : List Sign) → drop 1 (drop at all) ≡ drop (at + 1) all
drop_one zero [] = refl
drop_one (suc n) [] = let e : suc n + 1 ≡ suc (n + 1) = omega arith in ap (λ k. drop k (let l : List Sign = [] in l)) (sym e)
drop_one zero (t ∷ ts) = refl
drop_one (suc n) (t ∷ ts) = let e : suc n + 1 ≡ suc (n + 1) = omega arith in drop_one n ts ∙ ap (λ k. drop k (t ∷ ts)) (sym e)

-- a word or symbol that is there
pub sign_gives : (m : Mark) (at : ℕ) (all : List Sign) → next_is (is_mark m) (drop at all) ≡ true → IsSign all m at
sign_gives m at all h = sign_read m (drop at all) h ∙ ap (λ ts. found tt [] ts) (drop_one at all)

pub sign_stops : (m : Mark) (at : ℕ) (all : List Sign) → at ≤ length all → next_is (is_mark m) (drop at all) ≡ false → Fails all (error.Syntax at) (read_sign m (drop at all))
sign_stops m at all l h = (l, sign_fails m (drop at all) h ∙ ap (λ n. let r : Read Role (Unit {0}) = Err (Syntax n) in r) (length-drop at all))

-- the value of the token at a place
pub value_next : (v : Sign → Option ℕ) (at : ℕ) (all : List Sign) (d : Sign) → at < length all → next_value v (drop at all) ≡ v (get_or all at d)
value_next v at [] d h = absurd (omega arith)
value_next v zero (t ∷ ts) d h = refl
value_next v (suc n) (t ∷ ts) d h = value_next v n ts d (omega arith)

pub no_value_past : (v : Sign → Option ℕ) (at : ℕ) (all : List Sign) → length all ≤ at → next_value v (drop at all) ≡ None
no_value_past v zero [] h = refl
no_value_past v (suc n) [] h = refl
no_value_past v zero (t ∷ ts) h = absurd (omega arith)
no_value_past v (suc n) (t ∷ ts) h = no_value_past v n ts (omega arith)

value_here : (v : Sign → Option ℕ) (at : ℕ) (all : List Sign) (x : ℕ) → next_value v (drop at all) ≡ Some x → at < length all
value_here v zero [] x h = absurd (cc)
value_here v (suc n) [] x h = absurd (cc)
value_here v zero (t ∷ ts) x h = omega arith
value_here v (suc n) (t ∷ ts) x h = let i = value_here v n ts x h in omega arith

-- a token with a value stands there where one is read there
pub word_stands : (ts : List Sign) → is_some (next_value word_in ts) ≡ next_is is_word ts
word_stands [] = refl
word_stands (token.Number zero ∷ ts) = refl
word_stands (token.Number (suc n) ∷ ts) = refl
word_stands (t ∷ ts) = refl

pub find_stands : (ts : List Sign) → is_some (next_value find_in ts) ≡ next_is is_find ts
find_stands [] = refl
find_stands (token.Number zero ∷ ts) = refl
find_stands (token.Number (suc n) ∷ ts) = refl
find_stands (t ∷ ts) = refl

pub unnamed_stands : (ts : List Sign) → is_some (next_value unnamed_in ts) ≡ next_is is_unnamed ts
unnamed_stands [] = refl
unnamed_stands (token.Number zero ∷ ts) = refl
unnamed_stands (token.Number (suc n) ∷ ts) = refl
unnamed_stands (t ∷ ts) = refl

-- a fault at a place
pub fault_at : {A : Type 0} (at : ℕ) (all : List Sign) (r : Read Role A) → at ≤ length all → r ≡ Err (Syntax (length (drop at all))) → Fails all (error.Syntax at) r
fault_at at all r l e = (l, e ∙ ap (λ n. let r : Read Role _ = Err (Syntax n) in r) (length-drop at all))

-- a use of a name that is noted
pub use_noted : (r : Role) (at : ℕ) (all : List Sign) (x : ℕ) (us vs : List NameUse) (n : ℕ) → n ≡ length all - at → vs ≡ us ++ record { role = r; name = x; left = n } ∷ [] → uses_of vs ≡ uses_of us ++ used r x (drop at all)
use_noted r at all x us vs n l e = ap uses_of e ∙ (map-append use_of us (record { role = r; name = x; left = n } ∷ []) ∙ ap (λ k. uses_of us ++ record { role = r; name = x; left = k } ∷ []) (l ∙ sym (length-drop at all)))

-- a name

word_read : (r : Role) (ts : List Sign) (x : ℕ) → next_value word_in ts ≡ Some x → read_word r ts ≡ found x (used r x ts) (drop 1 ts)
word_read r [] x h = absurd (cc)
word_read r (token.Word y w ∷ ts) x h = let e : y ≡ x = cc in ap (λ z. found z (used r z (token.Word y w ∷ ts)) ts) e
word_read r (t ∷ ts) x h = absurd (cc)

word_fails : (r : Role) (ts : List Sign) → next_value word_in ts ≡ None → read_word r ts ≡ Err (Syntax (length ts))
word_fails r [] h = refl
word_fails r (token.Word y w ∷ ts) h = absurd (cc)
word_fails r (t ∷ ts) h = refl

pub word_gives : (r : Role) (at : ℕ) (all : List Sign) (x : ℕ) (us vs : List NameUse) → next_value word_in (drop at all) ≡ Some x → uses_of vs ≡ uses_of us ++ used r x (drop at all) → IsRead all us vs (read_word r (drop at all)) x (at + 1)
word_gives r at all x us vs h e = record {
  uses = used r x (drop at all);
  is = word_read r (drop at all) x h ∙ ap (λ ts. found x (used r x (drop at all)) ts) (drop_one at all);
  noted = e;
  within = let i = value_here word_in at all x h in omega arith;
}

pub word_stops : (r : Role) (at : ℕ) (all : List Sign) → at ≤ length all → next_value word_in (drop at all) ≡ None → Fails all (error.Syntax at) (read_word r (drop at all))
word_stops r at all l h = fault_at at all (read_word r (drop at all)) l (word_fails r (drop at all) h)

-- a word of a script

script_word_read : (w : ScriptWord) (ts : List Sign) → next_is (is_script_word w) ts ≡ true → read_script_word {R = Role} w ts ≡ found tt [] (drop 1 ts)
script_word_read w [] h = absurd (cc)
script_word_read w (t ∷ ts) h = ap (λ b. pick b (λ us. found tt [] ts) no_syntax (t ∷ ts)) h

script_word_fails : (w : ScriptWord) (ts : List Sign) → next_is (is_script_word w) ts ≡ false → read_script_word {R = Role} w ts ≡ Err (Syntax (length ts))
script_word_fails w [] h = refl
script_word_fails w (t ∷ ts) h = ap (λ b. pick b (λ us. found tt [] ts) no_syntax (t ∷ ts)) h

pub script_word_gives : (w : ScriptWord) (at : ℕ) (all : List Sign) → next_is (is_script_word w) (drop at all) ≡ true → IsPlain all (read_script_word w (drop at all)) tt (at + 1)
script_word_gives w at all h = record {
  is = script_word_read w (drop at all) h ∙ ap (λ ts. found tt [] ts) (drop_one at all);
  within = let i = in_range (is_script_word w) at all h in omega arith;
}

pub script_word_stops : (w : ScriptWord) (at : ℕ) (all : List Sign) → at ≤ length all → next_is (is_script_word w) (drop at all) ≡ false → Fails all (error.Syntax at) (read_script_word w (drop at all))
script_word_stops w at all l h = fault_at at all (read_script_word w (drop at all)) l (script_word_fails w (drop at all) h)

-- the word `collision` before `new`

unnamed_read : (r : Role) (ts : List Sign) (x : ℕ) → next_value unnamed_in ts ≡ Some x → read_unnamed r ts ≡ found x (used r x ts) (drop 1 ts)
unnamed_read r [] x h = absurd (cc)
unnamed_read r (token.Unnamed y ∷ ts) x h = let e : y ≡ x = cc in ap (λ z. found z (used r z (token.Unnamed y ∷ ts)) ts) e
unnamed_read r (t ∷ ts) x h = absurd (cc)

unnamed_fails : (r : Role) (ts : List Sign) → next_value unnamed_in ts ≡ None → read_unnamed r ts ≡ Err (Syntax (length ts))
unnamed_fails r [] h = refl
unnamed_fails r (token.Unnamed y ∷ ts) h = absurd (cc)
unnamed_fails r (t ∷ ts) h = refl

pub unnamed_gives : (r : Role) (at : ℕ) (all : List Sign) (x : ℕ) (us vs : List NameUse) → next_value unnamed_in (drop at all) ≡ Some x → uses_of vs ≡ uses_of us ++ used r x (drop at all) → IsRead all us vs (read_unnamed r (drop at all)) x (at + 1)
unnamed_gives r at all x us vs h e = record {
  uses = used r x (drop at all);
  is = unnamed_read r (drop at all) x h ∙ ap (λ ts. found x (used r x (drop at all)) ts) (drop_one at all);
  noted = e;
  within = let i = value_here unnamed_in at all x h in omega arith;
}

pub unnamed_stops : (r : Role) (at : ℕ) (all : List Sign) → at ≤ length all → next_value unnamed_in (drop at all) ≡ None → Fails all (error.Syntax at) (read_unnamed r (drop at all))
unnamed_stops r at all l h = fault_at at all (read_unnamed r (drop at all)) l (unnamed_fails r (drop at all) h)

-- a note, which is no token
pub note_gives : (r : Role) (at : ℕ) (all : List Sign) (us vs : List NameUse) (n : ℕ) → at ≤ length all → n ≡ length all - at → uses_of vs ≡ uses_of us ++ used r 0 (drop at all) → IsRead all us vs (read_note r (drop at all)) n at
note_gives r at all us vs n w l e = record {
  uses = used r 0 (drop at all);
  is = ap (λ k. found k (used r 0 (drop at all)) (drop at all)) (length-drop at all ∙ sym l);
  noted = e;
  within = w;
}

-- a number

number_read : (ts : List Sign) (x : ℕ) → next_value number_in ts ≡ Some x → read_number {R = Role} ts ≡ found x [] (drop 1 ts)
number_read [] x h = absurd (cc)
number_read (token.Number y ∷ ts) x h = let e : y ≡ x = cc in ap (λ z. found z [] ts) e
number_read (t ∷ ts) x h = absurd (cc)

number_fails : (ts : List Sign) → next_value number_in ts ≡ None → read_number {R = Role} ts ≡ Err (Syntax (length ts))
number_fails [] h = refl
number_fails (token.Number y ∷ ts) h = absurd (cc)
number_fails (t ∷ ts) h = refl

pub number_gives : (at : ℕ) (all : List Sign) (x : ℕ) → next_value number_in (drop at all) ≡ Some x → IsPlain all (read_number (drop at all)) x (at + 1)
number_gives at all x h = record {
  is = number_read (drop at all) x h ∙ ap (λ ts. found x [] ts) (drop_one at all);
  within = let i = value_here number_in at all x h in omega arith;
}

pub number_stops : (at : ℕ) (all : List Sign) → at ≤ length all → next_value number_in (drop at all) ≡ None → Fails all (error.Syntax at) (read_number (drop at all))
number_stops at all l h = fault_at at all (read_number (drop at all)) l (number_fails (drop at all) h)

-- a word `find`

find_read : (ts : List Sign) (x : ℕ) → next_value find_in ts ≡ Some x → read_find {R = Role} ts ≡ found x [] (drop 1 ts)
find_read [] x h = absurd (cc)
find_read (token.Find y ∷ ts) x h = let e : y ≡ x = cc in ap (λ z. found z [] ts) e
find_read (t ∷ ts) x h = absurd (cc)

find_fails : (ts : List Sign) → next_value find_in ts ≡ None → read_find {R = Role} ts ≡ Err (Syntax (length ts))
find_fails [] h = refl
find_fails (token.Find y ∷ ts) h = absurd (cc)
find_fails (t ∷ ts) h = refl

pub find_gives : (at : ℕ) (all : List Sign) (x : ℕ) → next_value find_in (drop at all) ≡ Some x → IsPlain all (read_find (drop at all)) x (at + 1)
find_gives at all x h = record {
  is = find_read (drop at all) x h ∙ ap (λ ts. found x [] ts) (drop_one at all);
  within = let i = value_here find_in at all x h in omega arith;
}

pub find_stops : (at : ℕ) (all : List Sign) → at ≤ length all → next_value find_in (drop at all) ≡ None → Fails all (error.Syntax at) (read_find (drop at all))
find_stops at all l h = fault_at at all (read_find (drop at all)) l (find_fails (drop at all) h)

-- the number 0

zero_read : (ts : List Sign) → next_is is_zero ts ≡ true → read_nought {R = Role} ts ≡ found tt [] (drop 1 ts)
zero_read [] h = absurd (cc)
zero_read (token.Number zero ∷ ts) h = refl
zero_read (token.Number (suc n) ∷ ts) h = absurd (cc)
zero_read (t ∷ ts) h = absurd (cc)

zero_fails : (ts : List Sign) → next_is is_zero ts ≡ false → read_nought {R = Role} ts ≡ Err (Syntax (length ts))
zero_fails [] h = refl
zero_fails (token.Number zero ∷ ts) h = absurd (cc)
zero_fails (token.Number (suc n) ∷ ts) h = refl
zero_fails (t ∷ ts) h = refl

pub zero_gives : (at : ℕ) (all : List Sign) → next_is is_zero (drop at all) ≡ true → IsPlain all (read_nought (drop at all)) tt (at + 1)
zero_gives at all h = record {
  is = zero_read (drop at all) h ∙ ap (λ ts. found tt [] ts) (drop_one at all);
  within = let i = in_range is_zero at all h in omega arith;
}

pub zero_stops : (at : ℕ) (all : List Sign) → at ≤ length all → next_is is_zero (drop at all) ≡ false → Fails all (error.Syntax at) (read_nought (drop at all))
zero_stops at all l h = fault_at at all (read_nought (drop at all)) l (zero_fails (drop at all) h)

-- readers one after another

pub fails_bind : {A B : Type 0} (all : List Sign) (e : ReadError) (r : Read Role A) (f : Found Role A → Read Role B) → Fails all e r → Fails all e (r >>= f)
fails_bind all (error.Syntax k) r f h = (h.0, ap (λ x. x >>= f) h.1)
fails_bind all (error.Nesting k) r f h = (h.0, ap (λ x. x >>= f) h.1)
fails_bind all error.OutOfMemory r f h = tt

-- behind a word or symbol
pub fails_after_sign : {B : Type 0} (all : List Sign) (m : Mark) (at : ℕ) (e : ReadError) (f : Found Role (Unit {0}) → Read Role B) → IsSign all m at → Fails all e (f (record { value = tt; uses = []; rest = drop (at + 1) all })) → Fails all e (read_sign m (drop at all) >>= f)
fails_after_sign all m at e f d h = subst (λ y. Fails all e (y >>= f)) (sym d) h

pub read_after_sign : {B : Type 0} (all : List Sign) (m : Mark) (at : ℕ) (us vs : List NameUse) (f : Found Role (Unit {0}) → Read Role B) (b : B) (last : ℕ) → IsSign all m at → IsRead all us vs (f (record { value = tt; uses = []; rest = drop (at + 1) all })) b last → IsRead all us vs (read_sign m (drop at all) >>= f) b last
read_after_sign all m at us vs f b last d h = record { uses = h.uses; is = ap (λ y. y >>= f) d ∙ h.is; noted = h.noted; within = h.within }

-- behind a phrase that was read
pub fails_behind : {A B : Type 0} (all : List Sign) (us vs : List NameUse) (e : ReadError) (r : Read Role A) (f : Found Role A → Read Role B) (a : A) (end : ℕ) → (d : IsRead all us vs r a end) → Fails all e (f (record { value = a; uses = d.uses; rest = drop end all })) → Fails all e (r >>= f)
fails_behind all us vs e r f a end d h = subst (λ y. Fails all e (y >>= f)) (sym d.is) h

-- a reading without uses of names
pub plain_read : {A : Type 0} {all : List Sign} {r : Read Role A} {a : A} {end : ℕ} (us : List NameUse) → IsPlain all r a end → IsRead all us us r a end
plain_read us d = record { uses = []; is = d.is; noted = sym (append-nil (uses_of us)); within = d.within }

pub ruleset places = (past_end, sign_gives, sign_stops, value_next, no_value_past, word_gives, word_stops, fails_bind, fails_after_sign, read_after_sign, fails_behind)

-- for the readers of single tokens
pub ruleset tokens = (past_end, value_next, no_value_past, word_stands, find_stands, unnamed_stands, use_noted, word_gives, word_stops, script_word_gives, script_word_stops, unnamed_gives, unnamed_stops, note_gives, number_gives, number_stops, find_gives, find_stops, zero_gives, zero_stops)
