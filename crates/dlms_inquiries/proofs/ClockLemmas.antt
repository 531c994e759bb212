-- What a clock shows, and what it is set to.
use Rattle.std.proofs.Common.{arith, ◌≡◌, ◌∙◌, ◌≤◌, refl, sym, ap, subst, inl, ℕ, ℤ, pos, neg_ℤ, unsigned_abs, nat_le, if◌then◌else◌, Bool, true, false, ◌+ℤ◌, ◌-ℤ◌, ◌*ℤ◌, List, [], ◌∷◌, Option, Some, None}
use Rattle.std.proofs.lemmas.Int.{ints}
use Rattle.dlms_data.specs.DateTime.{NamesSecond}
use Rattle.dlms_data.specs.declared.date_time.TheConstants.{LAST_SECOND}
use Rattle.dlms_inquiries.specs.Clocks.{IsPlain, IsTimeToSet, NamesMoment, SetsRight, ShiftsRight, deviation_of, in_zone_of, nearest, without_deviation}

pub moment_so : (clock : List ℕ) (second : ℕ) (d m : ℤ) → NamesSecond (without_deviation clock) second → d ≡ deviation_of clock
    → m ≡ pos second +ℤ d *ℤ pos 60 → NamesMoment clock m
moment_so clock second d m names is sum = record { second = second; local = names; value = sum ∙ ap (λ (x : ℤ). pos second +ℤ x *ℤ pos 60) is }

pub set_so : (shown : Option (List ℕ)) (clock plain time : List ℕ) (moment d local : ℤ) (second : ℕ) → shown ≡ Some clock → d ≡ deviation_of clock
    → local ≡ moment -ℤ d *ℤ pos 60 → second ≡ nearest local → IsPlain second plain → time ≡ in_zone_of clock plain → IsTimeToSet shown moment time
set_so shown clock plain time moment d local second is deviation lies near named same =
    subst (λ (o : Option (List ℕ)). IsTimeToSet o moment time) (sym is)
    (plain, subst (λ (s : ℕ). IsPlain s plain) (near ∙ ap nearest (lies ∙ ap (λ (x : ℤ). moment -ℤ x *ℤ pos 60) deviation)) named, same)

-- ---- a clock that is set shows the intended second

zone_named : (clock plain : List ℕ) (n : ℕ) → NamesSecond plain n → NamesSecond (without_deviation (in_zone_of clock plain)) n × (deviation_of (in_zone_of clock plain) ≡ deviation_of clock)
zone_named clock [] n names = absurd (cc names.size)
zone_named clock (o0 ∷ []) n names = absurd (cc names.size)
zone_named clock (o0 ∷ o1 ∷ []) n names = absurd (cc names.size)
zone_named clock (o0 ∷ o1 ∷ o2 ∷ []) n names = absurd (cc names.size)
zone_named clock (o0 ∷ o1 ∷ o2 ∷ o3 ∷ []) n names = absurd (cc names.size)
zone_named clock (o0 ∷ o1 ∷ o2 ∷ o3 ∷ o4 ∷ []) n names = absurd (cc names.size)
zone_named clock (o0 ∷ o1 ∷ o2 ∷ o3 ∷ o4 ∷ o5 ∷ []) n names = absurd (cc names.size)
zone_named clock (o0 ∷ o1 ∷ o2 ∷ o3 ∷ o4 ∷ o5 ∷ o6 ∷ []) n names = absurd (cc names.size)
zone_named clock (o0 ∷ o1 ∷ o2 ∷ o3 ∷ o4 ∷ o5 ∷ o6 ∷ o7 ∷ []) n names = absurd (cc names.size)
zone_named clock (o0 ∷ o1 ∷ o2 ∷ o3 ∷ o4 ∷ o5 ∷ o6 ∷ o7 ∷ o8 ∷ []) n names = absurd (cc names.size)
zone_named clock (o0 ∷ o1 ∷ o2 ∷ o3 ∷ o4 ∷ o5 ∷ o6 ∷ o7 ∷ o8 ∷ o9 ∷ []) n names = absurd (cc names.size)
zone_named clock (o0 ∷ o1 ∷ o2 ∷ o3 ∷ o4 ∷ o5 ∷ o6 ∷ o7 ∷ o8 ∷ o9 ∷ o10 ∷ []) n names = absurd (cc names.size)
zone_named clock (o0 ∷ o1 ∷ o2 ∷ o3 ∷ o4 ∷ o5 ∷ o6 ∷ o7 ∷ o8 ∷ o9 ∷ o10 ∷ o11 ∷ []) n names =
    (record { size = refl; date = names.date; time = names.time; deviation = (inl refl, refl); range = names.range; value = names.value }, refl)
zone_named clock (o0 ∷ o1 ∷ o2 ∷ o3 ∷ o4 ∷ o5 ∷ o6 ∷ o7 ∷ o8 ∷ o9 ∷ o10 ∷ o11 ∷ more ∷ rest) n names = absurd (cc names.size)

near : (moment zone : ℤ) (local : ℕ) → local ≤ LAST_SECOND → pos local +ℤ zone *ℤ pos 60 ≡ moment → nearest (moment -ℤ zone *ℤ pos 60) ≡ local
near moment zone local may sum =
    let lies : moment -ℤ zone *ℤ pos 60 ≡ pos local = omega (arith, ints, sum) in
    ap nearest lies ∙ omega (arith, may)

shifted_by : (may : Bool) (ahead seconds : ℤ) → (if may then Some (neg_ℤ ahead) else None) ≡ Some seconds → seconds ≡ neg_ℤ ahead
shifted_by true ahead seconds is = cc is
shifted_by false ahead seconds is = absurd (cc is)

cancels : (z : ℤ) → z +ℤ neg_ℤ z ≡ pos 0
cancels z = omega (arith, ints)

pub shifts_right : ShiftsRight
shifts_right ahead seconds is = ap (λ (s : ℤ). ahead +ℤ s) (shifted_by (nat_le (unsigned_abs ahead) 900) ahead seconds is) ∙ cancels ahead

pub sets_right : SetsRight
sets_right clock moment local time (plain, named, same) may sum =
    let says : NamesSecond plain local = subst (λ (n : ℕ). NamesSecond plain n) (near moment (deviation_of clock) local may sum) named.0 in
    let zoned = zone_named clock plain local says in
    subst (λ (t : List ℕ). NamesMoment t moment) (sym same) (record { second = local; local = zoned.0; value = sym sum ∙ ap (λ (z : ℤ). pos local +ℤ z *ℤ pos 60) (sym zoned.1) })
