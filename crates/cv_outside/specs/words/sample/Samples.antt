-- Sample files: so many pairs of a sender and a receiver under keys of a MAC, each with a query that a message that was accepted was
-- sent. Bellare, Kilian and Rogaway, JCSS 2000.
use Rattle.std.specs.Prelude.{ℕ, zero, suc, ◌-◌, ◌==◌, List, [], ◌∷◌, ◌++◌, codes, flat_map, if◌then◌else◌}
use Rattle.std.specs.Fmt.{decimal}

abbrev pub Text : Type 0
Text = List ℕ

abbrev pub line : Text → Text
line text = text ++ codes "\n"

-- a text in which `#` (35) stands for a number
abbrev pub mark_of : ℕ → ℕ → Text
mark_of n b = if b == 35 then decimal n else b ∷ []

abbrev pub numbered : Text → ℕ → Text
numbered text n = flat_map (mark_of n) text

-- the same for each number from 1 on
unfoldable pub each : Text → (count : ℕ) → Text
each text zero = []
each text (suc n) = each text n ++ numbered text (suc n)

-- a MAC whose tags can't be forged
unfoldable pub mac : Text
mac =
    line (codes "param NA, NB, NC.")
    ++ line (codes "type message.")
    ++ line (codes "type key [fixed, large].")
    ++ line (codes "type tag.")
    ++ line (codes "fun mac(message, key): tag.")
    ++ line (codes "fun check(message, key, tag): bool.")
    ++ line (codes "fun mac2(message, key): tag.")
    ++ line (codes "fun check2(message, key, tag): bool.")
    ++ line (codes "equation forall m:message, k0:key; check(m, k0, mac(m, k0)) = true.")
    ++ line (codes "equation forall m:message, k0:key; check2(m, k0, mac2(m, k0)) = true.")

unfoldable pub unforgeable : Text
unforgeable =
    line (codes "proba Pmac.")
    ++ line (codes "equiv uf !i<=n new r:key; (")
    ++ line (codes "  Omac: !j<=qm (x:message) -> mac(x, r) |")
    ++ line (codes "  Ochk: !j<=qc (y:message, z:tag) -> check(y, r, z) )")
    ++ line (codes "<=(Pmac)=> !i<=n new r:key; (")
    ++ line (codes "  Omac: !j<=qm (x:message) -> mac2(x, r) |")
    ++ line (codes "  Ochk: !j<=qc (y:message, z:tag) ->")
    ++ line (codes "    find u<=qm suchthat defined(x[u]) && y = x[u] && check2(x[u], r, z) then true else false ).")

-- the channels, the events and the query of a pair, its key, and its two processes
unfoldable pub declared : Text
declared =
    line (codes "channel ca#, da#, cb#, db#. event e#(message). event f#(message). query m:message; event e#(m) ==> event f#(m).")

unfoldable pub key : Text
key = line (codes "new k#:key;")

unfoldable pub pair : Text
pair =
    line (codes " !i#<=NA in(ca#, (a#:message)); event f#(a#); out(da#, (mac(a#, k#)))")
    ++ line (codes "| !j#<=NB in(cb#, (b#:message, t#:tag)); if check(b#, k#, t#) then event e#(b#); out(db#, ()) ")

-- the processes of n pairs, each with a bar behind it
unfoldable pub barred : (count : ℕ) → Text
barred zero = []
barred (suc n) = barred n ++ (numbered pair (suc n) ++ line (codes "|"))

-- what stands in front of the processes of n pairs, and these
unfoldable pub front : ℕ → Text
front n = line (codes "channel st.") ++ each declared n ++ line (codes "process in(st, ());") ++ each key n ++ line (codes "out(st, ());")

unfoldable pub back : ℕ → Text
back n = line (codes "(") ++ barred (n - 1) ++ numbered pair n ++ line (codes ")")

-- the sample with n pairs, which stand in parallel behind their keys
unfoldable pub file_of : ℕ → Text
file_of n = mac ++ unforgeable ++ front n ++ back n
