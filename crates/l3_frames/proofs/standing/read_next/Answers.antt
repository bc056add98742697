use Rattle.std.proofs.Common.{◌≡◌, ◌<◌, [], length, None, Some, Err, sym, ap, subst, ◌∙◌, refl, arith, rules}
use Rattle.std.specs.Prelude.{IfSome}
use Rattle.l3_base.specs.declared.settings.Settings.{Settings}
use Rattle.l3_stream.specs.declared.fault.StreamFault.TheVariants as faults
use Rattle.l3_stream.specs.Faults.{clear}
use Rattle.l3_frames.specs.InTurn.{LeavesBehind, bytes_by, content_from, settings_by}
use Rattle.l3_frames.specs.Steps.{HeaderBegins, KeepsTape, NoHeader, tape_place, progress_of}
use Rattle.l3_frames.proofs.Own.{own_clear, own_fault, within_not_memory, within_not_read}
use Rattle.l3_frames.proofs.WholeSteps.{if_none, if_some, other_fault, refused}
use Rattle.l3_frames.proofs.NextSteps.{at_start, kept_under, rest_of_kept, same_settings, settings_found, settings_missing, tape_still, next_no_header, next_header_left, next_ended, next_bad_end, next_end_left, next_unknown, next_unknown_left, next_refused, next_refused_left, next_frame}
use Rattle.l3_frames.proofs.standing.read_next.Goals as goal

-- ---- no header

pub returns-in_err-found-clause-deviation : goal.returns-in_err-found-clause-deviation
returns-in_err-found-clause-deviation g c =
    let old = g.S.Source.left c.args.source.now in
    let s = c.args.standing.now in
    let p = tape_place s.tape in
    let fault = c.in_err-found.field-0.0 in
    let is : c.from_residual.result ≡ Err fault = search rules in
    let none : IfSome old (λ l. NoHeader fault s.limit p.number p.at l) = subst
    (λ n. IfSome old (λ l. NoHeader fault n p.number p.at l)) c.from-limit.ensures
    c.in_err-found.ensures.fault in
    refused c.from_residual.result fault (λ d. (d ≡ faults.Read → ⊥)
    → IfSome old (λ l. content_from s.settings s.limit p l ≡ Err d)) is
    (next_no_header s.limit p s.settings (at_start s.settings s.tape c.requires.sound.tape) old old
    fault none)

pub returns-in_err-found-clause-gone : goal.returns-in_err-found-clause-gone
returns-in_err-found-clause-gone g c =
    let old = g.S.Source.left c.args.source.now in
    let mid = g.S.Source.left c.read_header_bytes.new.source in
    let s = c.args.standing.now in
    let p = tape_place s.tape in
    let fault = c.in_err-found.field-0.0 in
    let is : c.from_residual.result ≡ Err fault = search rules in
    let none : IfSome old (λ l. NoHeader fault s.limit p.number p.at l) = subst
    (λ n. IfSome old (λ l. NoHeader fault n p.number p.at l)) c.from-limit.ensures
    c.in_err-found.ensures.fault in
    refused c.from_residual.result fault
    (λ d. IfSome old (λ l. LeavesBehind d (bytes_by (settings_by s.settings l) p.number) l mid))
    is
    (next_header_left s.limit p s.settings (at_start s.settings s.tape c.requires.sound.tape) old
    mid fault none c.in_err-found.ensures.gone)

-- ---- the end

pub returns-in_err-test_rest-clause-deviation : goal.returns-in_err-test_rest-clause-deviation
returns-in_err-test_rest-clause-deviation g c =
    let old = g.S.Source.left c.args.source.now in
    let mid = g.S.Source.left c.read_header_bytes.new.source in
    let s = c.args.standing.now in
    let p = tape_place s.tape in
    let fault = c.in_err-test_rest.field-0.0 in
    let is : c.from_residual-in_err-test_rest.result ≡ Err fault = search rules in
    let found : c.in_ok-found.found ≡ None = search rules in
    let none = if_none c.in_ok-found.found (IfSome old (λ l. (l ≡ []) × (mid ≡ Some []))) found
    c.in_ok-found.ensures.ended in
    refused c.from_residual-in_err-test_rest.result fault (λ d. (d ≡ faults.Read → ⊥)
    → IfSome old (λ l. content_from s.settings s.limit p l ≡ Err d)) is
    (λ not. next_bad_end s.limit p s.settings (at_start s.settings s.tape c.requires.sound.tape) old
    mid fault none (sym c.test_rest.ensures ∙ c.in_err-test_rest.was))

pub returns-in_err-test_rest-clause-gone : goal.returns-in_err-test_rest-clause-gone
returns-in_err-test_rest-clause-gone g c =
    let old = g.S.Source.left c.args.source.now in
    let mid = g.S.Source.left c.read_header_bytes.new.source in
    let s = c.args.standing.now in
    let p = tape_place s.tape in
    let fault = c.in_err-test_rest.field-0.0 in
    let is : c.from_residual-in_err-test_rest.result ≡ Err fault = search rules in
    let found : c.in_ok-found.found ≡ None = search rules in
    let none = if_none c.in_ok-found.found (IfSome old (λ l. (l ≡ []) × (mid ≡ Some []))) found
    c.in_ok-found.ensures.ended in
    let within = own_fault (clear p.end p.rest) fault (own_clear p.end p.rest)
    (sym c.test_rest.ensures ∙ c.in_err-test_rest.was) in
    refused c.from_residual-in_err-test_rest.result fault
    (λ d. IfSome old (λ l. LeavesBehind d (bytes_by (settings_by s.settings l) p.number) l mid))
    is
    (next_end_left s.limit p s.settings (at_start s.settings s.tape c.requires.sound.tape) old mid
    fault within none)

pub returns-in_err-test_rest-clause-memory : goal.returns-in_err-test_rest-clause-memory
returns-in_err-test_rest-clause-memory g c =
    let p = tape_place c.args.standing.now.tape in
    let fault = c.in_err-test_rest.field-0.0 in
    let is : c.from_residual-in_err-test_rest.result ≡ Err fault = search rules in
    other_fault c.from_residual-in_err-test_rest.result fault faults.Memory is
    (within_not_memory fault (own_fault (clear p.end p.rest) fault (own_clear p.end p.rest)
    (sym c.test_rest.ensures ∙ c.in_err-test_rest.was)))

pub returns-in_err-test_rest-clause-read : goal.returns-in_err-test_rest-clause-read
returns-in_err-test_rest-clause-read g c =
    let p = tape_place c.args.standing.now.tape in
    let fault = c.in_err-test_rest.field-0.0 in
    let is : c.from_residual-in_err-test_rest.result ≡ Err fault = search rules in
    λ e. absurd (other_fault c.from_residual-in_err-test_rest.result fault faults.Read is
    (within_not_read fault (own_fault (clear p.end p.rest) fault (own_clear p.end p.rest)
    (sym c.test_rest.ensures ∙ c.in_err-test_rest.was))) e)

pub returns-in_default-clause-ended : goal.returns-in_default-clause-ended
returns-in_default-clause-ended g c =
    let old = g.S.Source.left c.args.source.now in
    let mid = g.S.Source.left c.read_header_bytes.new.source in
    let s = c.args.standing.now in
    let p = tape_place s.tape in
    let found : c.in_ok-found.found ≡ None = search rules in
    let none = if_none c.in_ok-found.found (IfSome old (λ l. (l ≡ []) × (mid ≡ Some []))) found
    c.in_ok-found.ensures.ended in
    next_ended s.limit p s.settings (at_start s.settings s.tape c.requires.sound.tape) old mid
    (progress_of s None) refl none (sym c.test_rest.ensures ∙ c.in_ok-test_rest.was)

-- ---- no settings

pub returns-in_err-settings-clause-deviation : goal.returns-in_err-settings-clause-deviation
returns-in_err-settings-clause-deviation g c =
    let old = g.S.Source.left c.args.source.now in
    let mid = g.S.Source.left c.read_header_bytes.new.source in
    let s = c.args.standing.now in
    let p = tape_place s.tape in
    let header = c.in-Some.header in
    let fault = c.in_err-settings.field-0.0 in
    let is : c.from_residual-in_err-settings.result ≡ Err fault = search rules in
    let four = if_some c.in_ok-found.found header (λ bytes. length bytes ≡ 4) c.in-Some.is
    c.in_ok-found.ensures.four in
    let few : p.number < c.from-limit.result = if_some c.in_ok-found.found header
    (λ _. p.number < c.from-limit.result) c.in-Some.is c.in_ok-found.ensures.few in
    let begun = if_some c.in_ok-found.found header
    (λ bytes. IfSome old (λ l. HeaderBegins l bytes mid)) c.in-Some.is
    c.in_ok-found.ensures.begun in
    let missing = settings_missing s.settings header c.settings_under.result fault
    c.settings_under.ensures c.in_err-settings.was in
    refused c.from_residual-in_err-settings.result fault (λ d. (d ≡ faults.Read → ⊥)
    → IfSome old (λ l. content_from s.settings s.limit p l ≡ Err d)) is
    (λ not. subst (λ d. IfSome old (λ l. content_from s.settings s.limit p l ≡ Err d))
    (sym missing.1)
    (next_unknown s.limit p s.settings (at_start s.settings s.tape c.requires.sound.tape) old mid
    header four begun (omega (arith, few, c.from-limit.ensures)) missing.0))

pub returns-in_err-settings-clause-gone : goal.returns-in_err-settings-clause-gone
returns-in_err-settings-clause-gone g c =
    let old = g.S.Source.left c.args.source.now in
    let mid = g.S.Source.left c.read_header_bytes.new.source in
    let s = c.args.standing.now in
    let p = tape_place s.tape in
    let header = c.in-Some.header in
    let fault = c.in_err-settings.field-0.0 in
    let is : c.from_residual-in_err-settings.result ≡ Err fault = search rules in
    let four = if_some c.in_ok-found.found header (λ bytes. length bytes ≡ 4) c.in-Some.is
    c.in_ok-found.ensures.four in
    let few : p.number < c.from-limit.result = if_some c.in_ok-found.found header
    (λ _. p.number < c.from-limit.result) c.in-Some.is c.in_ok-found.ensures.few in
    let begun = if_some c.in_ok-found.found header
    (λ bytes. IfSome old (λ l. HeaderBegins l bytes mid)) c.in-Some.is
    c.in_ok-found.ensures.begun in
    let missing = settings_missing s.settings header c.settings_under.result fault
    c.settings_under.ensures c.in_err-settings.was in
    refused c.from_residual-in_err-settings.result fault
    (λ d. IfSome old (λ l. LeavesBehind d (bytes_by (settings_by s.settings l) p.number) l mid))
    is
    (subst (λ d. IfSome old (λ l. LeavesBehind d (bytes_by (settings_by s.settings l) p.number) l
    mid)) (sym missing.1)
    (next_unknown_left s.limit p s.settings (at_start s.settings s.tape c.requires.sound.tape) old
    mid header four begun (omega (arith, few, c.from-limit.ensures)) missing.0))

pub returns-in_err-settings-clause-memory : goal.returns-in_err-settings-clause-memory
returns-in_err-settings-clause-memory g c =
    let fault = c.in_err-settings.field-0.0 in
    let is : c.from_residual-in_err-settings.result ≡ Err fault = search rules in
    let missing = settings_missing c.args.standing.now.settings c.in-Some.header
    c.settings_under.result fault c.settings_under.ensures c.in_err-settings.was in
    other_fault c.from_residual-in_err-settings.result fault faults.Memory is
    (λ e. let both : faults.BadHeader 0 ≡ faults.Memory = sym missing.1 ∙ e in cc)

pub returns-in_err-settings-clause-read : goal.returns-in_err-settings-clause-read
returns-in_err-settings-clause-read g c =
    let fault = c.in_err-settings.field-0.0 in
    let is : c.from_residual-in_err-settings.result ≡ Err fault = search rules in
    let missing = settings_missing c.args.standing.now.settings c.in-Some.header
    c.settings_under.result fault c.settings_under.ensures c.in_err-settings.was in
    λ e. absurd (other_fault c.from_residual-in_err-settings.result fault faults.Read is
    (λ h. let both : faults.BadHeader 0 ≡ faults.Read = sym missing.1 ∙ h in cc) e)

-- ---- a frame

pub read_whole-requires-clause-kept : goal.read_whole-requires-clause-kept
read_whole-requires-clause-kept g c κs within =
    let s = c.args.standing.now in
    kept_under s.settings c.in_ok-settings.settings c.in-Some.header s.tape c.requires.sound.tape
    (settings_found s.settings c.in-Some.header c.settings_under.result c.in_ok-settings.settings
    c.settings_under.ensures c.in_ok-settings.was)

pub returns-in_err-frame-clause-deviation : goal.returns-in_err-frame-clause-deviation
returns-in_err-frame-clause-deviation g c =
    let old = g.S.Source.left c.args.source.now in
    let mid = g.S.Source.left c.read_header_bytes.new.source in
    let now = g.S.Source.left c.read_whole.new.source in
    let s = c.args.standing.now in
    let p = tape_place s.tape in
    let header = c.in-Some.header in
    let st = c.in_ok-settings.settings in
    let fault = c.in_err-frame.field-0.0 in
    let is : c.from_residual-in_err-frame.result ≡ Err fault = search rules in
    let four = if_some c.in_ok-found.found header (λ bytes. length bytes ≡ 4) c.in-Some.is
    c.in_ok-found.ensures.four in
    let few : p.number < c.from-limit.result = if_some c.in_ok-found.found header
    (λ _. p.number < c.from-limit.result) c.in-Some.is c.in_ok-found.ensures.few in
    let begun = if_some c.in_ok-found.found header
    (λ bytes. IfSome old (λ l. HeaderBegins l bytes mid)) c.in-Some.is
    c.in_ok-found.ensures.begun in
    let told = settings_found s.settings header c.settings_under.result st c.settings_under.ensures
    c.in_ok-settings.was in
    refused c.from_residual-in_err-frame.result fault (λ d. (d ≡ faults.Read → ⊥)
    → IfSome old (λ l. content_from s.settings s.limit p l ≡ Err d)) is
    (λ not. next_refused s.limit p s.settings (at_start s.settings s.tape c.requires.sound.tape) old
    mid header four begun (omega (arith, few, c.from-limit.ensures)) st told now fault
    c.in_err-frame.ensures.fault not
    (λ e. c.in_err-frame.ensures.memory (ap (λ d. Err d) e)))

pub returns-in_err-frame-clause-gone : goal.returns-in_err-frame-clause-gone
returns-in_err-frame-clause-gone g c =
    let old = g.S.Source.left c.args.source.now in
    let mid = g.S.Source.left c.read_header_bytes.new.source in
    let now = g.S.Source.left c.read_whole.new.source in
    let s = c.args.standing.now in
    let p = tape_place s.tape in
    let header = c.in-Some.header in
    let st = c.in_ok-settings.settings in
    let fault = c.in_err-frame.field-0.0 in
    let is : c.from_residual-in_err-frame.result ≡ Err fault = search rules in
    let four = if_some c.in_ok-found.found header (λ bytes. length bytes ≡ 4) c.in-Some.is
    c.in_ok-found.ensures.four in
    let few : p.number < c.from-limit.result = if_some c.in_ok-found.found header
    (λ _. p.number < c.from-limit.result) c.in-Some.is c.in_ok-found.ensures.few in
    let begun = if_some c.in_ok-found.found header
    (λ bytes. IfSome old (λ l. HeaderBegins l bytes mid)) c.in-Some.is
    c.in_ok-found.ensures.begun in
    let told = settings_found s.settings header c.settings_under.result st c.settings_under.ensures
    c.in_ok-settings.was in
    refused c.from_residual-in_err-frame.result fault
    (λ d. IfSome old (λ l. LeavesBehind d (bytes_by (settings_by s.settings l) p.number) l now))
    is
    (next_refused_left s.limit p s.settings (at_start s.settings s.tape c.requires.sound.tape) old
    mid header four begun (omega (arith, few, c.from-limit.ensures)) st told now fault
    c.in_err-frame.ensures.gone)

pub returns-in_err-frame-clause-sound : goal.returns-in_err-frame-clause-sound
returns-in_err-frame-clause-sound g c =
    let s = c.args.standing.now in
    let t = c.read_whole.new.tape in
    let st = c.in_ok-settings.settings in
    let told = settings_found s.settings c.in-Some.header c.settings_under.result st
    c.settings_under.ensures c.in_ok-settings.was in
    let same : tape_place t ≡ tape_place s.tape = c.in_err-frame.ensures.same in
    let still : (v : Settings) → KeepsTape v s.tape → KeepsTape v t = c.in_err-frame.ensures.still
    in
    record {
      limit = c.requires.sound.limit;
      few = omega (arith, ap (λ q. q.number) same, c.requires.sound.few);
      rest = rest_of_kept st t
          (still st (kept_under s.settings st c.in-Some.header s.tape c.requires.sound.tape told));
      tape = tape_still s.settings s.tape t same still c.requires.sound.tape;
    }

pub returns-clause-frame : goal.returns-clause-frame
returns-clause-frame g c =
    let s = c.args.standing.now in
    let p = tape_place s.tape in
    let header = c.in-Some.header in
    let st = c.in_ok-settings.settings in
    let few : p.number < c.from-limit.result = if_some c.in_ok-found.found header
    (λ _. p.number < c.from-limit.result) c.in-Some.is c.in_ok-found.ensures.few in
    record {
      settings = st;
      told = refl;
      same = same_settings s.settings header st
          (settings_found s.settings header c.settings_under.result st c.settings_under.ensures
          c.in_ok-settings.was);
      coded = c.in_ok-frame.ensures.coded;
      room = omega (arith, few, c.from-limit.ensures);
      number = c.in_ok-frame.ensures.number;
      limit = refl;
      goes_on = (refl, refl);
    }

pub returns-clause-begins : goal.returns-clause-begins
returns-clause-begins g c =
    let old = g.S.Source.left c.args.source.now in
    let mid = g.S.Source.left c.read_header_bytes.new.source in
    let now = g.S.Source.left c.read_whole.new.source in
    let s = c.args.standing.now in
    let p = tape_place s.tape in
    let q = tape_place c.read_whole.new.tape in
    let header = c.in-Some.header in
    let st = c.in_ok-settings.settings in
    let four = if_some c.in_ok-found.found header (λ bytes. length bytes ≡ 4) c.in-Some.is
    c.in_ok-found.ensures.four in
    let few : p.number < c.from-limit.result = if_some c.in_ok-found.found header
    (λ _. p.number < c.from-limit.result) c.in-Some.is c.in_ok-found.ensures.few in
    let begun = if_some c.in_ok-found.found header
    (λ bytes. IfSome old (λ l. HeaderBegins l bytes mid)) c.in-Some.is
    c.in_ok-found.ensures.begun in
    let told = settings_found s.settings header c.settings_under.result st c.settings_under.ensures
    c.in_ok-settings.was in
    next_frame s.limit p s.settings (at_start s.settings s.tape c.requires.sound.tape) old mid
    header four begun (omega (arith, few, c.from-limit.ensures)) st told now c.in_ok-frame.frame
    q
    (record { limit = s.limit; settings = s.settings; place = p; fault = None })
    (record { limit = s.limit; settings = Some st; place = q; fault = None }) refl refl
    c.in_ok-frame.ensures.number c.in_ok-frame.ensures.content c.in_ok-frame.ensures.rest
