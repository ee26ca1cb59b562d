use Rattle.std.proofs.Common.{◌≡◌, ℕ, List, [], ◌++◌, ◌+◌, ◌-◌, ◌%◌, length, take, arith, append_assoc, append-nil, length-append, length-drop, drop, refl, ap, ◌∙◌}
use Rattle.std.proofs.lemmas.Slice.{take-put_mid}
use Rattle.std.proofs.lemmas.List.{take_at, drop_all, length-take-le}
use borrow.Rule.Slice.PartMut.{put_mid, post_of}
use Rattle.byteorder.specs.Endian.{little_number}
use Rattle.chv_sip.specs.SipHash.{keyed, GoesOn}
use Rattle.chv_sip.proofs.Words.{GoesOn-word, GoesOn-append, GoesOn-then}
use Rattle.chv_sip.proofs.sip.Sip.feed.Goals as goal

pub returns-then-bytes-room : goal.returns-then-bytes-room
returns-then-bytes-room c = λ k0 k1 fed held.
    let tail : List ℕ = c.args.self.now.tail in
    let n : ℕ = c.args.self.now.count % 8 in
    let now : take ((c.args.self.now.count + length c.args.bytes.now % 256) % 256 % 8) (put_mid n (n + length c.args.bytes.now - n) tail c.copy_from_slice.new.self) ≡ take n tail ++ c.copy_from_slice.new.self =
    take-put_mid n _ tail c.copy_from_slice.new.self _ (omega arith) (omega arith) in
    record {
      counted = omega (arith, held.counted, length-append fed c.args.bytes.now);
      goes_on = rw (now, c.copy_from_slice.ensures.after) (GoesOn-append c.args.bytes.now held.goes_on);
    }

pub returns : goal.returns
returns c = λ k0 k1 fed held.
    let tail : List ℕ = c.args.self.now.tail in
    let n : ℕ = c.args.self.now.count % 8 in
    let front : List ℕ = c.split_at.result.0.now in
    let rest : List ℕ = c.split_at.result.1.now in
    let word : List ℕ = take n tail ++ front in
    let behind : post_of n (8 - n) tail ≡ [] = drop_all (8 - n) (drop n tail) (omega (arith, length-drop n tail)) in
    let filled : put_mid n (8 - n) tail c.copy_from_slice-2.new.self ≡ word = rw (behind, append-nil, c.copy_from_slice-2.ensures.after) refl in
    let read : c.read_u64.result ≡ little_number 8 word = c.read_u64.ensures ∙ ap (little_number 8) filled in
    let eight : length word ≡ 8 = omega (arith, length-append (take n tail) front, length-take-le n tail (omega arith)) in
    let given : take n tail ++ c.args.bytes.now ≡ word ++ rest = rw (c.split_at.ensures.by_index.0, append_assoc) refl in
    let start : GoesOn (keyed k0 k1) (fed ++ c.args.bytes.now) c.args.self.now.state (word ++ rest) = rw given at (GoesOn-append c.args.bytes.now held.goes_on) in
    let after : GoesOn (keyed k0 k1) (fed ++ c.args.bytes.now) c.compress.new.self rest = rw (c.compress.ensures, read) (GoesOn-word word start eight) in
    let left : List ℕ = c.absorb-left.result.now in
    let kept : (more : List ℕ) → take ((c.args.self.now.count + length c.args.bytes.now % 256) % 256 % 8) (left ++ more) ≡ left =
    λ more. take_at left more _ (omega arith) in
    record {
      counted = omega (arith, held.counted, length-append fed c.args.bytes.now);
      goes_on = rw (c.copy_from_slice-3.ensures.after, kept) (GoesOn-then after c.absorb-left.ensures.absorbed);
    }
