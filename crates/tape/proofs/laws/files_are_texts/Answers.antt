use Rattle.tape.specs.TapeFile.{header_in, entries_in}
use Rattle.tape.proofs.Files.{file_from_none, read_again, text_is_one}
use Rattle.tape.proofs.laws.files_are_texts.Goals as goal

pub returns-clause-texts_are_files : goal.returns-clause-texts_are_files
returns-clause-texts_are_files c = λ bytes seed pages rules entries fits text. (read_again bytes seed pages rules entries fits text).no_fault

pub returns-clause-texts_are_one : goal.returns-clause-texts_are_one
returns-clause-texts_are_one c = text_is_one

pub returns-clause-files_are_texts : goal.returns-clause-files_are_texts
returns-clause-files_are_texts c = λ bytes fits e.
    let file = file_from_none bytes fits e in
    let header = header_in bytes in
    (header.seed, header.pages, header.rules, entries_in bytes, file.fits, file.text)
